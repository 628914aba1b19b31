pub mod HeldLaws
pub mod ValueLaws
pub mod KeyLaws
