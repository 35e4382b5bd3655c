pub mod owned_list
