-- What the contracts cite: bytes written into a buffer at an offset.
pub mod Put
