pub mod SqlModes
