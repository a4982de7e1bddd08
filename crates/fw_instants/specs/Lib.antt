pub mod Instants
