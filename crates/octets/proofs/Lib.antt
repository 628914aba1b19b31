pub mod BoolLaws
pub mod AllLaws
pub mod ListLaws
pub mod NumberLaws
pub mod PartLaws
pub mod OctetLaws
pub mod GapLaws
pub mod PortLaws
