mod Results
mod Settling
mod Handing
