pub mod Coverage
pub mod FirstRows
pub mod Within
