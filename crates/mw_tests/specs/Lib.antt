pub mod KernelModules
pub mod LinkedKernels
