pub mod Asked
pub mod Goes
