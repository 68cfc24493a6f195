mod AllAdded
