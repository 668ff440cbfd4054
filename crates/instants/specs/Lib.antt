pub mod Delivering
pub mod Replies
pub mod Written
