mod Drawings
mod ShowingLemmas
