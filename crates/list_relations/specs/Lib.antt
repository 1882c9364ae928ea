pub mod Replies
pub mod Spellings
