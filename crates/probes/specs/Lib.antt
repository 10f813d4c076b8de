pub mod Probes
pub mod ExtensionProbes
