-- tests and changes
pub mod Tests
pub mod Changes
pub mod Fits
pub mod Writes
-- what is secure stays secure
pub mod Shapes
pub mod SecureFrame
pub mod Rows
pub mod SecureAccess
pub mod SecureRows
pub mod NewObject
pub mod SecureCreate
pub mod SecureNew
pub mod SecureGroup
pub mod SecureContents
pub mod SecureProcesses
pub mod Rising
pub mod SecureCalls
pub mod SecureEvents
-- two states in which the same lies under a level
pub mod Alike
pub mod SeenItems
-- what a level does not see
pub mod Unseen
pub mod UnseenLevels
pub mod UnseenChanges
pub mod UnseenCalls
pub mod UnseenTurns
pub mod UnseenEvents
-- what a level sees
pub mod Seen
pub mod SeenQuotas
pub mod SeenRefusals
pub mod SeenReplies
pub mod SeenSpace
pub mod SeenAccess
pub mod SeenObjects
pub mod SeenCalls
pub mod SeenTurns
pub mod SeenEvents
-- runs
pub mod Runs
pub mod Kept
pub mod Numbered
pub mod LineRecords
pub mod Isolation
-- what is told by hand
pub mod ExampleLemmas
