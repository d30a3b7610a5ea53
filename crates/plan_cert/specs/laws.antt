pub mod CertificateLaws
