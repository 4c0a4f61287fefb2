pub mod Files
pub mod RecordParts
pub mod ModuleShapes
pub mod WholeRecords
pub mod RecordSequences
pub mod MapEntries
pub mod SendSync
