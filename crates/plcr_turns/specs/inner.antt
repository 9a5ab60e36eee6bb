-- Words that only tests cite.
pub mod Ready
