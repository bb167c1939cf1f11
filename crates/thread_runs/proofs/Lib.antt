mod Queries
mod Alike
mod Logs
mod Runs
