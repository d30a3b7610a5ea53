mod GroupVideos
mod GroupAfterGroup
mod VideoOrTable
mod Causes
mod OneGroup
mod StoreRead
