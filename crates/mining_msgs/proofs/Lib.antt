pub mod PlainSetups
