pub mod Inquiries
