mod Stating
mod Answering
mod Telling
mod Asking
