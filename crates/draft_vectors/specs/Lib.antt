-- The draft's test vectors.
pub mod Vectors
