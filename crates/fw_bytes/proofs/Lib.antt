pub mod Utf8
pub mod Laws
pub mod Loop
pub mod Rising
