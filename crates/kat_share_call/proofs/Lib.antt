mod Ending
mod Reading
mod Requests
mod Writing
