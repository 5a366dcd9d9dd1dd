pub mod FiveWords
pub mod JobBytes
pub mod OneForm
