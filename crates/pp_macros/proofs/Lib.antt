pub mod defined_names
pub mod open_frames
pub mod taking
pub mod work
