pub mod Items
pub mod Answering
pub mod Desks
pub mod Turned
pub mod Grown
pub mod Posted
