pub mod Game
pub mod Statement
pub mod Tick
pub mod Force
