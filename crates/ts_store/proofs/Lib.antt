pub mod Writes
pub mod JournalLemmas
pub mod RangeLemmas
pub mod Trees
pub mod RecorderLemmas
pub mod Shares
