mod Answering
mod Applied
mod ChannelSteps
mod JobSteps
mod SessionSteps
pub mod Recovering
mod ShareSteps
mod Started
mod TokenSteps
mod Told
mod Within
pub mod Crossing
