pub mod Files
pub mod Memory
pub mod Null
pub mod Schedule
pub mod Stop
pub mod Volume
