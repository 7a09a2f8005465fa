pub mod Image
pub mod Bitmap
pub mod Promises
pub mod Samples
