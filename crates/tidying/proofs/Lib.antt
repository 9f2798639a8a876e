pub mod Firsts
pub mod Repetitions
