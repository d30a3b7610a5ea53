pub mod AesLaws
pub mod OwnLaws
