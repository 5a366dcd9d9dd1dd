pub mod Loops
pub mod Fields
pub mod Transactions
pub mod WholeOutputs
pub mod OutputLaws
pub mod Coinbases
