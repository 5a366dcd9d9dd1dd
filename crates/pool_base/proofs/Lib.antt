pub mod Behind
pub mod WrongCalls
