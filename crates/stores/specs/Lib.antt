pub mod RowStores
pub mod ListingStores
