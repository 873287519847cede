mod Joining
mod Lining
mod Noting
mod Reporting
mod Same
