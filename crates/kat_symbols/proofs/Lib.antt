mod Denials
mod Insertions
