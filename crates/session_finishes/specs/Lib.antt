-- What a session of each kind comes to.
pub mod Due
