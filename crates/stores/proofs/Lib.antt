pub mod ListingStores
pub mod RowStores
