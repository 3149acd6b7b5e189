pub mod AdjacentWindows
mod EntriesGrow
mod EntryChanges
mod EntryExact
mod EntryFits
mod EntryGiven
mod EntryHistory
mod EntryKnown
mod EntryLast
mod EntryNumbering
mod EntryOrdered
mod EntryRowLists
pub mod Graphs
pub mod JoinedWindows
mod LaterIds
pub mod Lexicons
pub mod Members
pub mod Naming
pub mod NarrowedWindows
pub mod Newest
pub mod PrunedWindows
pub mod Rows
pub mod Shown
pub mod Terms
pub mod UnprunedWindows
mod VocabularyTerms
pub mod WindowAnswers
mod WindowEntries
pub mod WindowSteps
