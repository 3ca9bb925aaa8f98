pub mod HeldLaws
pub mod JoiningHeads
pub mod PlainLists
