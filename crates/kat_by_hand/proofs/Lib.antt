mod Writable
mod Firsts
