-- what a command line is answered, and what it means
pub mod Answers
-- command lines one after another
pub mod Starts
