-- The laws about bindings judged by themselves.
pub mod AskedLaws
pub mod SaidLaws
pub mod KeptLaws
pub mod JudgedLaws
