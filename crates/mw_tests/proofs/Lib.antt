pub mod LinkedKernels
