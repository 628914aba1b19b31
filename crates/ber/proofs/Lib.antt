pub mod BerLaws
pub mod NameLaws
pub mod ContentLaws
