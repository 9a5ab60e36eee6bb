pub mod Bytes
pub mod Causes
pub mod Chains
pub mod Numbers
pub mod Told
pub mod Limits
