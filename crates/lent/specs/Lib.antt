-- Records, messages, steps and answers as the numbers of lent lists.
pub mod Kept
pub mod Coded
pub mod Steps
