pub mod CheckedPrograms
pub mod StartedMachines
