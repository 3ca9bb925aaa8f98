pub mod Put
pub mod PutLaws
pub mod DecimalLaws
pub mod LastDigits
pub mod SignLaws
pub mod DecimalMeaning
