mod Viewed
mod Started
