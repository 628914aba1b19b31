pub mod Ber
