-- The laws about columns of the growing tables.
pub mod ColumnLaws
