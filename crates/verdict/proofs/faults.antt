-- The laws about faults.
pub mod StatusLaws
pub mod PortSetLaws
pub mod FaultLaws
pub mod TimerLaws
