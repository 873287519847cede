mod Decimals
mod Folding
mod Integers
mod Wholes
